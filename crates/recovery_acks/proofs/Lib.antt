pub mod AckLaws
pub mod FrequencyLaws
pub mod HighestRunLaws
