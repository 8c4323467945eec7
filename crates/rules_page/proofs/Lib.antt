pub mod Seeing
pub mod Saturating
pub mod Cutting
pub mod TitleAmong
pub mod TitleTold
pub mod FirstMeta
pub mod MetasTold
pub mod Local
