pub mod Alone
pub mod Apart
pub mod ClausesTold
pub mod LinesTold
pub mod PlainMembers
pub mod Serving
