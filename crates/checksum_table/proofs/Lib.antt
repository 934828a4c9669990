mod Linear
mod Looking
