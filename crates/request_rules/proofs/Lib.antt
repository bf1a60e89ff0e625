pub mod FieldLists
pub mod Ordinary
pub mod RuleTests
pub mod Cookies
pub mod MalformedTests
pub mod Counts
