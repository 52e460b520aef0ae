-- Laws of packing.
--     Three     three numbers of each side, stored
--     Bands     bands stored one by one on both sides
--     Sections  sections stored one by one, one on each side
--     Heads     x1, x2 and the flag of both sides, and so two channels
--     Sides     the channel on side 0 or 1
mod Three
mod Bands
mod Sections
mod Heads
mod Sides
