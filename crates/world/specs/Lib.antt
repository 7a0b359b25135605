pub mod LentParts
pub mod Boots
pub mod Laws
pub mod Headline
pub mod HeadlineLaws
pub mod Merges
pub mod inner
