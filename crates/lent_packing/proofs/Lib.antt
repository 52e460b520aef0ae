-- Laws of lent packing.
--     Neighbours  two runs of numbers and their floats, one number of each side more
--     Bands       the bands, by their runs
--     Channels    the two channels of a pair, by their runs
--     Carry       every float of a pair of fit channels is a number of at most 2^23 in size
--     Stored      the numbers after a store are those of the unit that it makes
mod Neighbours
mod Bands
mod Channels
mod Carry
mod Stored
