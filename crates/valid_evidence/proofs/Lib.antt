mod RankLaws
mod RowLaws
mod ShownLaws
mod LoadedLaws
