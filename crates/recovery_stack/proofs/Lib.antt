pub mod AsBox
pub mod BeginLaws
pub mod HeldLaws
pub mod SettingsMadeLaws
