mod Carrying
