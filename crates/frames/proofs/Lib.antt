-- The laws of frames.
--     Bytes     samples and words
--     Many      so many frames, and one more
--     Channel   one channel of a frame
--     Words     the words of a pass
--     Column    one channel of so many frames, and two columns stored
--     Mixing    the frames of a pass: words become T
--     Passing   passes one behind the other
--     Sides     pairs one behind the other
--     Sound     the sound of all pairs
--     Pairs     pair after pair
pub mod Bytes
pub mod Many
pub mod Channel
mod Words
pub mod Column
mod Mixing
mod Passing
mod Sides
mod Sound
mod Pairs
