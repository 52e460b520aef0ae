-- Forms, and a line of the strip sheet as one.
pub mod Form
pub mod Line
