-- What the play program rests on.
--     Sheets     the sheet that it begins with
--     WaveData   the data of a wave file
pub mod Sheets
pub mod WaveData
