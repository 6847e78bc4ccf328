pub mod Groups
pub mod HexLaws
pub mod Lists
pub mod Marks
pub mod QuotedLaws
pub mod Replies
pub mod Requests
pub mod Unsaid
