pub mod OneTextMore
