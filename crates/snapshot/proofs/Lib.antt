pub mod ImagesAccepted
pub mod OnViews
