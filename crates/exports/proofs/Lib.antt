-- What C is handed of a line.
mod SheetLine
