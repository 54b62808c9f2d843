pub mod StepViews
