-- Laws about the interrupt model.
pub mod ListLaws
pub mod SurveyLaws
pub mod FillLaws
pub mod RoomLaws
mod Examples
