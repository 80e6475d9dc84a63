-- Laws of the name in a line, of exit statuses, and of what a command on a file comes to.
pub mod Named
pub mod Statuses
mod Ending
mod Files
