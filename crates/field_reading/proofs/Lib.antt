-- The laws of a field that is read from the left.
--     Fits      a column that fits behind others is the one that the number has there
--     Scan      nine columns are well written where each fits
--     Reading   what reading nine columns gives: blanks, a minus or none, digits
--     Columns   what reading nine columns gives, by the columns themselves
--     Digits    digits, one by one
mod Fits
mod Scan
mod Reading
mod Columns
mod Digits
