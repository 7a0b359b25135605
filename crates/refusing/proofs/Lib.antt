mod Shapes
mod Ticks
