-- The laws of reading a line.
--     Results  what a read that is accepted or refused tells of its test
--     Fields   a field, and fields of one range read by a loop
--     Section  the fields of an S line: four words, and the remainder or 0
--     Line     a line: its letter, its fields, and what stands behind them
--     Forms    forms that are put together
pub mod Results
pub mod Fields
pub mod Section
pub mod Line
pub mod Forms
