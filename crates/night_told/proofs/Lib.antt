mod Tell
