pub mod Answered
pub mod FewLines
pub mod OneLine
pub mod Spans
pub mod Underway
pub mod WholeLines
