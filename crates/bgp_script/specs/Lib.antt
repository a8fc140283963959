-- Scripts for a pair of speakers, and reports of their runs.
pub mod Lines
pub mod Pieces
pub mod Number
pub mod Speaker
pub mod Move
pub mod Script
pub mod ScriptFault
pub mod NoteList
pub mod ReportText
pub mod TraceText
pub mod Faults
pub mod steps
