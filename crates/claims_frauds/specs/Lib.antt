-- The modules of claims_frauds: `Demands` says what is demanded of any reader, writer, lookup and digest; `Ours` proves it of ours; `Frauds` proves that each fraud of 01 fails, and
-- `WriterFrauds` that further ones of a writer do, by the files, tables and messages of `Witness`; and `Table` that a reader that answers by the whole table is ours.
pub mod Demands
pub mod Ours
pub mod Witness
pub mod Frauds
pub mod Table
pub mod WriterFrauds
