mod Crosses
