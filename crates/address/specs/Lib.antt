-- What a generic address says: its space, its access size, and the whole of it.
pub mod Space
pub mod Size
pub mod Generic
