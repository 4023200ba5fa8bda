pub mod Replies
pub mod Controllers
pub mod Kept
pub mod SenderViews
pub mod Sending
