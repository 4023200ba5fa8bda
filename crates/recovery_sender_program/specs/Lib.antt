pub mod Beginning
pub mod CallAnswers
pub mod CallLines
pub mod CallReading
pub mod Playing
pub mod Report
