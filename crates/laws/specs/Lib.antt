-- What several crates cite: a choice by a test, views of tests, laws of lists, of bytes pasted and put into a list, the interface of a language of bytes and
-- its reader, items one after the other, and the order of byte lists. Nothing here knows the index file. Assumes nothing.
pub mod Pick
pub mod Tests
pub mod Lists
pub mod Paste
pub mod Put
pub mod Read
pub mod Times
pub mod Fill
pub mod Same
pub mod Order
