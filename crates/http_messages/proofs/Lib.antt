pub mod Numbers
pub mod Marks
pub mod HeadLaws
pub mod TalkLaws
pub mod ReadingLaws
pub mod MessageLaws
pub mod TalkExists
