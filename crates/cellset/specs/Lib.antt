pub mod Cells
pub mod CellLaws
pub mod ConflictWords
pub mod Survey
pub mod SurveyPass
pub mod SurveyLaws
pub mod AllowedLaws
