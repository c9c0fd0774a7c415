pub mod FieldsFit
