mod Texts
