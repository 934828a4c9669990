pub mod ChannelLaws
