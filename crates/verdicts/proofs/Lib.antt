-- Laws of the verdict: the state that a tag tells, the place of the rules in the order of answers, the AS numbers of a valid session.
pub mod Judging
pub mod Sessions
