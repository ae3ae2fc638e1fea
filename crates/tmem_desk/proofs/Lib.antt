pub mod Laws
mod Answering
mod Counted
mod Ends
mod Giving
mod Indices
mod Knowing
mod Lasting
mod LeadingPuts
mod Lists
mod Losing
mod Numbers
mod Sight
mod StepLaws
mod Subtrees
mod Taking
mod Telling
mod Waking
