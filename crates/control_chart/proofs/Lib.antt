-- Laws of places in buffers, of a line that has ended or is cut, of the input as the program takes it, and of exit statuses.
mod Places
mod Cutting
mod Taking
mod Statuses
