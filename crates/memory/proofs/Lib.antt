-- Laws about ranges, places, views and questions, which the crates above cite.
pub mod RangeLaws
pub mod PlaceLaws
pub mod PieceLaws
pub mod AskedLaws
