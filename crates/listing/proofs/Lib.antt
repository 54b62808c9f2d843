mod Reported
mod Streamed
