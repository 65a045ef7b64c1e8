mod Homes
