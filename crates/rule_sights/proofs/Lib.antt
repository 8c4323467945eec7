pub mod Seeing
pub mod RowFirst
pub mod RoleFirst
pub mod TagFirst
pub mod Judging
pub mod Told
pub mod Resting
pub mod Tables
