pub mod Words
pub mod Refusals
pub mod Made
pub mod Shown
pub mod NameList
pub mod VerdictList
pub mod MemberList
pub mod Answers
