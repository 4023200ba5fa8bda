mod AckLaws
mod BeginningLaws
mod CallLaws
mod RangeLaws
