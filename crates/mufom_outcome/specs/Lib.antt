pub mod Outcomes
pub mod Stop
pub mod LocateRefusals
pub mod Complaint
pub mod Topic
pub mod TopicLaws
