pub mod ForwardAccepted
