mod Unloaded
