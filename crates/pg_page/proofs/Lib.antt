pub mod HeaderLaws
pub mod ImageLaws
pub mod MadeLaws
pub mod PatchLaws
