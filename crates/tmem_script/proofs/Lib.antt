mod EventForms
mod Members
mod NoArray
