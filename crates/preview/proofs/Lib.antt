-- The floating preview carries the integer section, in the order in which one module uses another.
--     Sum       products and sums of a step are whole and below 2^53: S is exact
--     Results   rounded and limited as floats, S gives the section's result
--     Carry     the section and its result are read back from the floats, and zero is plus zero
--     Lists     one word more, and what an accepted call tells
pub mod Sum
mod Results
pub mod Carry
mod Lists
