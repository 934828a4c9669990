mod Arms
mod Going
