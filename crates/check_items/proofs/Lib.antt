mod LineLaws
mod TableLaws
mod StepsLaws
mod ReplayLaws
mod CheckLaws
mod ItemLaws
mod AnswerLaws
mod WholeLaws
