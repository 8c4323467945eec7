pub mod CountLaws
