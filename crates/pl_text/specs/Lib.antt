pub mod FrameText
pub mod ValueText
