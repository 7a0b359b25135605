pub mod RunFrames
