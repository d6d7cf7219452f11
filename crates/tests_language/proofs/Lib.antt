mod Redefinition
