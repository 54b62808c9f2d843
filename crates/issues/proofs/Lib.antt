pub mod IssueAccepted
